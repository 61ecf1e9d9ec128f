pub mod ParcelLaws
