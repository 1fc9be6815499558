pub mod AnswerLemmas
pub mod CertificateLemmas
pub mod SampleLemmas
pub mod SessionLemmas
