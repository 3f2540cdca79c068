pub mod FewSteps
