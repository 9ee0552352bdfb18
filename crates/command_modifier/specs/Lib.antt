pub mod ModifierLoads
