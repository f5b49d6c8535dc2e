pub mod Program
pub mod Server
