mod FormLaws
mod NextLaws
pub mod ItemLaws
pub mod DerivedLaws
mod MetaLaws
mod FirstLaws
mod PendingLaws
mod GatherLaws
mod FitLaws
mod StepLaws
mod TouchLaws
mod BlobLaws
mod LogLaws
mod DropLaws
mod UntagLaws
mod RemoveLaws
mod RemovedLaws
mod StoreLaws
mod EntryLaws
mod WriteLaws
