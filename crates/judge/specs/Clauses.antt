-- What only the contracts of functions and their proofs speak of. No answer hangs on it: no statement of the demands and no definition outside this folder imports it.
pub mod Answers
pub mod Walk
