pub mod MoveLaws
mod RefusalLaws
mod BlobLaws
