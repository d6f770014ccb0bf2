-- The band that a pair of edges stands for.
use Rattle.balancing.specs.Bands.{Band}
use Rattle.balancing.specs.declared.edges.Edges.{Edges}

abbrev pub band_of : Edges → Band
band_of e = record { lower = e.lower; upper = e.upper }
