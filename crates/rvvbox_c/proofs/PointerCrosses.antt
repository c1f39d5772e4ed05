-- What a pointer to a box owns may go to another thread where what is in the box may.
use mir.Raw.{raw}
use base.Fraction.{full_share}
use base.Shift.{Keyless}
use denote.RattleType.{RattleType}
use denote.Builtin.{RawPtr}
use denote.Memory.{lone}
use denote.RawPtr.{Ptr, block_ptr, null_ptr, lies_at}
use denote.Exit.{Exit, unchanged, leaves, hidden, under}
use denote.Param.Send.{IsSend, Quiet, part_keyless, sendable}
use Rattle.std.proofs.Crossing.{frees}
use Rattle.std.specs.Box.Ownership.{box_owns}
use Rattle.std.specs.contracts.impls.GlobalAllocator.TheImpl.{ghosts}
use Rattle.rvvbox_c.specs.Holds.{global}

lies : (R : RattleType) → IsSend R → (p : Ptr) (x : R.Denot) → Keyless (lies_at R full_share p x)
lies R s (block_ptr b o) x = part_keyless R s full_share x b o
lies R s null_ptr x = tt

pub boxed : (R : RattleType) → IsSend R → (p : Ptr) (x : R.Denot) → Keyless (box_owns (ghosts.dealloc_token global) R p x)
boxed R s p x = (lies R s p x, frees.frees global (raw (lone R.mir)) p)

pub quiet : {D X : Type 0} (f : D → X) (e : Exit X) → Quiet e → Quiet (hidden (under f e))
quiet f unchanged q = λ x w. tt
quiet f (leaves L l S s r₀) q = λ d. q (f d)

pub pointer_send : IsSend RawPtr
pointer_send = search sendable
