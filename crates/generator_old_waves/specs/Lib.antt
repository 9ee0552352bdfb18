pub mod OldWaves
