pub mod SampleRules
