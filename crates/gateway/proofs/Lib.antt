pub mod Examples
pub mod InterfaceTable
