-- A word more of the bytes, and a word more as bytes: what is left gives the rest.
use Rattle.std.proofs.Common.{◌≡◌, ℕ, zero, suc, ◌+◌, ◌*◌, ◌/◌, ◌%◌, ◌^◌, ◌<◌, ◌≤◌, List, [], ◌∷◌, ◌++◌}
use Rattle.std.proofs.Common.{length, get_or, take, drop, map, sym, refl, ap, ◌∙◌, arith, add-one, add-zero}
use Rattle.std.specs.Int.{w32, from_le_bytes, to_le_bytes}
use Rattle.std.specs.Simd.{first_chunks}
use Rattle.std.proofs.lemmas.List.{length-drop, append_assoc, append-nil, drop_more, at_drop_more, at_drop_all}
use Rattle.std.proofs.lemmas.List.{get_or-take, get_or-drop, drop-drop, map-append}
use Rattle.octets.specs.Packing.{little, words_of, four, packed}

one_byte : (bs : List ℕ) (k j : ℕ) (rest : List ℕ) → k < length bs → j ≡ k + 1 → drop j bs ≡ rest
    → drop k bs ≡ get_or bs k 0 ∷ rest
one_byte bs k j rest h e r = drop_more bs k 0 h ∙ ap (λ xs. get_or bs k 0 ∷ xs) (ap (λ i. drop i bs) (sym e) ∙ r)

-- the four bytes at a place are its word
word_at : (k : ℕ) (bs : List ℕ) → k + 4 ≤ length bs
    → words_of (drop k bs) ≡ little (get_or bs k 0) (get_or bs (k + 1) 0) (get_or bs (k + 2) 0)
    (get_or bs (k + 3) 0) ∷ words_of (drop (k + 4) bs)
word_at k bs h =
    ap words_of
    (one_byte bs k (k + 1) _ (omega arith) refl
    (one_byte bs (k + 1) (k + 2) _ (omega arith) (omega arith)
    (one_byte bs (k + 2) (k + 3) _ (omega arith) (omega arith)
    (one_byte bs (k + 3) (k + 4) _ (omega arith) (omega arith) refl))))

pub word_more : (ws bs : List ℕ) (i w : ℕ) → 4 * i + 4 ≤ length bs → ws ++ words_of (drop (4 * i) bs) ≡ words_of bs
    → w ≡ little (get_or bs (4 * i) 0) (get_or bs (4 * i + 1) 0) (get_or bs (4 * i + 2) 0) (get_or bs (4 * i + 3) 0)
    → (ws ++ w ∷ []) ++ words_of (drop (4 * (i + 1)) bs) ≡ words_of bs
word_more ws bs i w h inv e =
    let k : 4 * (i + 1) ≡ 4 * i + 4 = omega arith in
    append_assoc ws (w ∷ []) (words_of (drop (4 * (i + 1)) bs))
    ∙ ap (λ x. ws ++ x ∷ words_of (drop (4 * (i + 1)) bs)) e
    ∙ ap (λ j. ws ++ little (get_or bs (4 * i) 0) (get_or bs (4 * i + 1) 0) (get_or bs (4 * i + 2) 0)
    (get_or bs (4 * i + 3) 0) ∷ words_of (drop j bs)) k
    ∙ ap (λ x. ws ++ x) (sym (word_at (4 * i) bs h))
    ∙ inv

-- one chunk more is the next four bytes
chunks_more : (k : ℕ) (bs : List ℕ)
    → first_chunks 4 (suc k) bs ≡ first_chunks 4 k bs ++ take 4 (drop (4 * k) bs) ∷ []
chunks_more zero bs = refl
chunks_more (suc k) bs =
    let j : 4 + 4 * k ≡ 4 * suc k = omega arith in
    let e : drop (4 * k) (drop 4 bs) ≡ drop (4 * suc k) bs = drop-drop (4 * k) 4 bs ∙ ap (λ i. drop i bs) j in
    ap (λ xs. take 4 bs ∷ xs) (chunks_more k (drop 4 bs)
    ∙ ap (λ ys. first_chunks 4 k (drop 4 bs) ++ take 4 ys ∷ []) e)

-- the word of the next four bytes
chunk_worth : (j : ℕ) (bs : List ℕ) → from_le_bytes w32 (take 4 (drop j bs))
    ≡ little (get_or bs j 0) (get_or bs (j + 1) 0) (get_or bs (j + 2) 0) (get_or bs (j + 3) 0)
chunk_worth j bs =
    let read = λ (i : ℕ) (h : i < 4). get_or-take 4 (drop j bs) i 0 h ∙ get_or-drop j bs i 0 in
    let first = rw add-zero at (read 0 (omega arith)) in
    omega (arith, first, read 1 (omega arith), read 2 (omega arith), read 3 (omega arith))

-- the words of the first chunks, with those of what is left, are all
pub chunks_so_far : (k : ℕ) (bs : List ℕ) → 4 * k ≤ length bs
    → map (from_le_bytes w32) (first_chunks 4 k bs) ++ words_of (drop (4 * k) bs) ≡ words_of bs
chunks_so_far zero bs h = refl
chunks_so_far (suc k) bs h =
    let f : List ℕ → ℕ = from_le_bytes w32 in
    let next = take 4 (drop (4 * k) bs) in
    let before = chunks_so_far k bs (omega arith) in
    let more = word_more (map f (first_chunks 4 k bs)) bs k (f next) (omega arith) before (chunk_worth (4 * k) bs) in
    ap (λ xs. map f xs ++ words_of (drop (4 * suc k) bs)) (chunks_more k bs)
    ∙ ap (λ ws. ws ++ words_of (drop (4 * suc k) bs)) (map-append f (first_chunks 4 k bs) (next ∷ []))
    ∙ (rw add-one at more)

-- fewer than four bytes
pub word_none : (bs : List ℕ) → length bs ≡ 0 → words_of bs ≡ []
word_none [] h = refl
word_none (a ∷ bs) h = absurd (omega (arith, h))

pub word_cut : (bs : List ℕ) → 0 < length bs → length bs < 4 → words_of bs ≡ 0 ∷ []
word_cut [] h k = absurd (omega (arith, h))
word_cut (a ∷ []) h k = refl
word_cut (a ∷ (b ∷ [])) h k = refl
word_cut (a ∷ (b ∷ (c ∷ []))) h k = refl
word_cut (a ∷ (b ∷ (c ∷ (d ∷ rest)))) h k = absurd (omega (arith, k))

-- a word's four bytes
pub bytes : (w : ℕ) → w < 2 ^ 32 → to_le_bytes w32 w ≡ four w
bytes w h = let e : w / 16777216 % 256 ≡ w / 16777216 = omega arith in rw e refl

pub byte_more : (bs ws more : List ℕ) (i : ℕ) → i < length ws → more ≡ four (get_or ws i 0)
    → bs ++ packed (drop i ws) ≡ packed ws → (bs ++ more) ++ packed (drop (i + 1) ws) ≡ packed ws
byte_more bs ws more i h e inv =
    rw e (append_assoc bs (four (get_or ws i 0)) (packed (drop (i + 1) ws))
    ∙ ap (λ x. bs ++ x) (sym (at_drop_more packed ws i 0 h)) ∙ inv)

pub bytes_all : (bs ws : List ℕ) (i : ℕ) → length ws ≤ i → bs ++ packed (drop i ws) ≡ packed ws → bs ≡ packed ws
bytes_all bs ws i h inv = sym (append-nil bs) ∙ ap (λ x. bs ++ x) (sym (at_drop_all packed ws i h)) ∙ inv

-- past the last whole word
module _ (ws bs : List ℕ) (i : ℕ) (inv : ws ++ words_of (drop (4 * i) bs) ≡ words_of bs) (e : i ≡ length bs / 4) where
  pub words_whole : length bs % 4 ≡ 0 → ws ≡ words_of bs
  words_whole h = sym (append-nil ws)
      ∙ ap (λ x. ws ++ x) (sym (word_none (drop (4 * i) bs) (simp length-drop (omega arith)))) ∙ inv

  pub words_cut : 0 < length bs % 4 → ws ++ 0 ∷ [] ≡ words_of bs
  words_cut h = ap (λ x. ws ++ x)
      (sym (word_cut (drop (4 * i) bs) (simp length-drop (omega arith)) (simp length-drop (omega arith)))) ∙ inv
