mod LastLaws
pub mod LoanLaws
