-- What a run is made of may go to another thread, part by part.
use denote.RattleType.{RattleType}
use denote.Param.Send.{IsSend, sendable, struct_send}
use denote.Struct.Declared.{shape}
use Rattle.std.specs.contracts.alloc.Global as heap
use Rattle.std.specs.contracts.impls.GlobalAllocator.TheImpl.{ghosts}
use Rattle.std.proofs.Crossing.{crosses}
use Rattle.region_mem.specs.contracts.memory.Regions as regions
use Rattle.region_mem.specs.contracts.region.Region as region
use Rattle.rvvbox_c.proofs.WordCrosses.{◌&◌, bool_send, i32_send, insn_send, reg_send, width_send}
use Rattle.rvvbox_c.specs.contracts.opened.Open as opened
use Rattle.sandbox_run.specs.contracts.any_session.AnySession as any
use Rattle.sandbox_run.specs.contracts.session.Session as session
use Rattle.scalar_core.specs.contracts.hart.Scalar as scalar
use Rattle.scalar_core.specs.contracts.op.Op as op
use Rattle.scalar_core.specs.contracts.op.OpKind as op_kind
use Rattle.vector_core.specs.contracts.state.VectorState as vectors
use Rattle.machine.specs.contracts.machine.Machine as machine
use Rattle.machine.specs.contracts.memo.Known as known
use Rattle.machine.specs.contracts.memo.Memo as memo
use Rattle.vreg_groups.specs.contracts.registers.VregFile as file
use Rattle.vreg_groups.specs.contracts.vector_type.Lmul as lmul
use Rattle.vreg_groups.specs.contracts.vector_type.Vtype as vtype

pub op_kind_send : IsSend op_kind.the_field.row
op_kind_send = search sendable depth 60 fits 20000

pub op_send : IsSend op.the_field.row
op_send = struct_send (shape op.the_type) (op_kind_send & reg_send & reg_send & reg_send & i32_send & tt)

pub lmul_send : IsSend lmul.the_field.row
lmul_send = search sendable depth 20

pub vtype_send : IsSend vtype.the_field.row
vtype_send = struct_send (shape vtype.the_type) (width_send & lmul_send & bool_send & bool_send & tt)

-- a word, and what is known of it
pub known_send : IsSend known.the_field.row
known_send = search (sendable, insn_send, op_send, vtype_send) depth 20

pub memo_send : IsSend (memo.the_field heap.the_row ghosts).row
memo_send = search (sendable, crosses, known_send) depth 20

pub region_send : IsSend (region.the_field heap.the_row ghosts).row
region_send = search (sendable, crosses) depth 20

pub regions_send : IsSend (regions.the_field heap.the_row ghosts).row
regions_send = search (sendable, crosses, region_send) depth 20

pub scalar_send : IsSend scalar.the_field.row
scalar_send = search sendable depth 20

pub file_send : (N : RattleType) → IsSend (file.the_field N).row
file_send N = search (sendable, crosses) depth 20

pub vectors_send : (N : RattleType) → IsSend (vectors.the_field N).row
vectors_send N = search (sendable, file_send) depth 20

pub machine_send : (N : RattleType) → IsSend (machine.the_field N heap.the_row ghosts).row
machine_send N = let a = memo_send in let b = regions_send in let c = scalar_send in let d = vectors_send N in search sendable depth 20

pub session_send : (N : RattleType) → IsSend (session.the_field N heap.the_row ghosts).row
session_send N = let a = machine_send N in search (sendable, crosses) depth 20

pub any_send : IsSend any.the_field.row
any_send = search (sendable, session_send) depth 20

pub open_send : IsSend opened.the_row
open_send = search (sendable, any_send) depth 20
