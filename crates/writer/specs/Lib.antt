-- What the writer's contracts cite beyond the definitions of drawings and layouts. Assumes nothing.
pub mod Values
pub mod Records
