pub mod OldTurn
