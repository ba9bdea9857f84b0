pub mod CircleE
