pub mod OfferLemmas
pub mod CertificateLemmas
pub mod AnswerLemmas
