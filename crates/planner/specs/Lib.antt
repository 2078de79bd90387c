pub mod ContractTerms
pub mod PrivatePromises
