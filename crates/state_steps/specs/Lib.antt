pub mod KeepsRooms
