pub mod North
