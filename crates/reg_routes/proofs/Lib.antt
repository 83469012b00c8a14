mod CuttingLaws
mod ColonLaws
mod TypedLaws
mod RouteLaws
mod OnlyLaws
