-- What an instruction of a process that may speculate by itself comes to.
pub mod Called
-- Turns of a process that may speculate by itself or not.
pub mod Taken
-- What a machine does at a request.
pub mod Requests
-- The value of its constant.
pub mod Examples
-- Laws: alike states come to the same.
pub mod CalledLaws
-- Laws: what an execution that is a request has done, and that every other is a whole turn.
pub mod AskingLaws
pub mod TakenLaws
-- Laws of a process that is put.
pub mod RequestLaws
-- Laws: turns leave which pages a process has, and their permissions.
pub mod PermsLaws
