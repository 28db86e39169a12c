pub mod SetLaws
pub mod ClassOrder
pub mod ItemLaws
pub mod RefusalLaws
pub mod Instance
