-- Laws that several proofs cite, and that the public function's contract leaves one result.
pub mod First
pub mod Unique
