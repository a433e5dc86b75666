-- Laws of the turns of the pages program, the room in its buffers, and examples.
pub mod AllTurns
pub mod Room
pub mod Examples
