mod FormLaws
mod ReadLaws
mod BoundLaws
