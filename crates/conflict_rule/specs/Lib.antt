pub mod LeavingOut
