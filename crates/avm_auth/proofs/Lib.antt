pub mod AuthLaws
