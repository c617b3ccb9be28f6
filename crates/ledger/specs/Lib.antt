-- In reading order: the ledger, its units, new origins, what an access touches, what is done to a page, the ledger after each
-- event, and ledgers that are alike; then laws, and examples that the checker computes.
pub mod Ledger
pub mod Units
pub mod Origins
pub mod Touched
pub mod Changes
pub mod Events
pub mod Alike
pub mod PlaceLaws
pub mod ClassLaws
pub mod UnitLaws
pub mod AmpleLaws
pub mod AloneLaws
pub mod OriginLaws
pub mod AlikeLaws
pub mod AlikeUnits
pub mod RowLaws
pub mod TallyLaws
pub mod StoreLaws
pub mod LargeLaws
pub mod TwoSteps
pub mod RebaseLaws
pub mod CopyLaws
pub mod Written
pub mod Examples
