pub mod HeldMap
