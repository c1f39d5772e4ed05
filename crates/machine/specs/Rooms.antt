-- The room that the state of a run takes where it lies.
use Rattle.std.specs.{Borrow.RattleType, Mem.FitsInMemory, declared.alloc.Allocator.Ghosts}
use Rattle.machine.specs.contracts.machine.Machine.{the_row}

-- The state of a run, apart from what its allocator handed out, takes fewer than 2^63 bytes.
-- Whatever the length of a vector register, this is so for every allocator of a usual size.
abbrev pub StateFitsInMemory : (VLENB A : RattleType) → Ghosts A.Denot → Type 0
StateFitsInMemory VLENB A alloc = FitsInMemory (the_row VLENB A alloc)
