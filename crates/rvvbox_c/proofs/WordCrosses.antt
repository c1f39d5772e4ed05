-- An instruction may go to another thread: what it is made of, type by type, the smallest first.
use denote.Param.Send.{IsSend, sendable, enum_send, struct_send}
use denote.Struct.Field.{u32-field, i32-field, bool-field}
use denote.Struct.Declared.{shape}
use denote.Enum.Declared.{shape as variants}
use Rattle.rv_decode.specs.contracts.instructions.Addressing as addressing
use Rattle.rv_decode.specs.contracts.instructions.CarryOp as carry_op
use Rattle.rv_decode.specs.contracts.instructions.CarryOutOp as carry_out_op
use Rattle.rv_decode.specs.contracts.instructions.ClipOp as clip_op
use Rattle.rv_decode.specs.contracts.instructions.CompareOp as compare_op
use Rattle.rv_decode.specs.contracts.instructions.Condition as condition
use Rattle.rv_decode.specs.contracts.instructions.Count as count
use Rattle.rv_decode.specs.contracts.instructions.CsrAction as csr_action
use Rattle.rv_decode.specs.contracts.instructions.CsrInsn as csr_insn
use Rattle.rv_decode.specs.contracts.instructions.CsrName as csr_name
use Rattle.rv_decode.specs.contracts.instructions.CsrSource as csr_source
use Rattle.rv_decode.specs.contracts.instructions.Direction as direction
use Rattle.rv_decode.specs.contracts.instructions.FirstOp as first_op
use Rattle.rv_decode.specs.contracts.instructions.FixedOp as fixed_op
use Rattle.rv_decode.specs.contracts.instructions.FoldOp as fold_op
use Rattle.rv_decode.specs.contracts.instructions.Fraction as fraction
use Rattle.rv_decode.specs.contracts.instructions.ImmediateOp as immediate_op
use Rattle.rv_decode.specs.contracts.instructions.Insn as insn
use Rattle.rv_decode.specs.contracts.instructions.IntOp as int_op
use Rattle.rv_decode.specs.contracts.instructions.LoadKind as load_kind
use Rattle.rv_decode.specs.contracts.instructions.LogicOp as logic_op
use Rattle.rv_decode.specs.contracts.instructions.MultiplyAddOp as multiply_add_op
use Rattle.rv_decode.specs.contracts.instructions.NarrowOp as narrow_op
use Rattle.rv_decode.specs.contracts.instructions.Offset as offset
use Rattle.rv_decode.specs.contracts.instructions.Reg as reg
use Rattle.rv_decode.specs.contracts.instructions.RegisterOp as register_op
use Rattle.rv_decode.specs.contracts.instructions.ScalarInsn as scalar_insn
use Rattle.rv_decode.specs.contracts.instructions.ShiftOp as shift_op
use Rattle.rv_decode.specs.contracts.instructions.Source as source
use Rattle.rv_decode.specs.contracts.instructions.VArith as v_arith
use Rattle.rv_decode.specs.contracts.instructions.VMask as v_mask
use Rattle.rv_decode.specs.contracts.instructions.VMem as v_mem
use Rattle.rv_decode.specs.contracts.instructions.VMove as v_move
use Rattle.rv_decode.specs.contracts.instructions.VPerm as v_perm
use Rattle.rv_decode.specs.contracts.instructions.VReduce as v_reduce
use Rattle.rv_decode.specs.contracts.instructions.VSet as v_set
use Rattle.rv_decode.specs.contracts.instructions.WideOp as wide_op
use Rattle.rv_decode.specs.contracts.instructions.WidenMultiplyAddOp as widen_multiply_add_op
use Rattle.rv_decode.specs.contracts.instructions.WidenOp as widen_op
use Rattle.rv_decode.specs.contracts.instructions.Width as width

-- one after another
infixr 5 ◌&◌
pub ◌&◌ : {A B : Type 0} → A → B → A × B
a & b = (a, b)

pub u32_send : IsSend u32-field.row
u32_send = search sendable

pub i32_send : IsSend i32-field.row
i32_send = search sendable

pub bool_send : IsSend bool-field.row
bool_send = search sendable

pub reg_send : IsSend reg.the_row
reg_send = search sendable depth 20

pub condition_send : IsSend condition.the_field.row
condition_send = search sendable depth 30

pub load_kind_send : IsSend load_kind.the_field.row
load_kind_send = search sendable depth 30

pub width_send : IsSend width.the_field.row
width_send = search sendable depth 30

pub immediate_op_send : IsSend immediate_op.the_field.row
immediate_op_send = search sendable depth 30

pub shift_op_send : IsSend shift_op.the_field.row
shift_op_send = search sendable depth 30

pub register_op_send : IsSend register_op.the_field.row
register_op_send = search sendable depth 30

pub scalar_insn_send : IsSend scalar_insn.the_field.row
scalar_insn_send = enum_send (variants scalar_insn.the_type)
    ((reg_send & u32_send & tt)
    & (reg_send & u32_send & tt)
    & (reg_send & i32_send & tt)
    & (reg_send & reg_send & i32_send & tt)
    & (condition_send & reg_send & reg_send & i32_send & tt)
    & (load_kind_send & reg_send & reg_send & i32_send & tt)
    & (width_send & reg_send & reg_send & i32_send & tt)
    & (immediate_op_send & reg_send & reg_send & i32_send & tt)
    & (shift_op_send & reg_send & reg_send & u32_send & tt)
    & (register_op_send & reg_send & reg_send & reg_send & tt)
    & tt
    & tt
    & tt)

pub csr_action_send : IsSend csr_action.the_field.row
csr_action_send = search sendable depth 30

pub csr_name_send : IsSend csr_name.the_field.row
csr_name_send = search sendable depth 30

pub csr_source_send : IsSend csr_source.the_field.row
csr_source_send = enum_send (variants csr_source.the_type)
    ((reg_send & tt)
    & (u32_send & tt)
    & tt)

pub csr_insn_send : IsSend csr_insn.the_field.row
csr_insn_send = struct_send (shape csr_insn.the_type) (csr_action_send & csr_name_send & csr_source_send & reg_send & tt)

pub v_set_send : IsSend v_set.the_field.row
v_set_send = enum_send (variants v_set.the_type)
    ((reg_send & reg_send & u32_send & tt)
    & (reg_send & u32_send & u32_send & tt)
    & (reg_send & reg_send & reg_send & tt)
    & tt)

pub int_op_send : IsSend int_op.the_field.row
int_op_send = search sendable depth 30

pub source_send : IsSend source.the_field.row
source_send = enum_send (variants source.the_type)
    ((reg_send & tt)
    & (reg_send & tt)
    & (i32_send & tt)
    & tt)

pub multiply_add_op_send : IsSend multiply_add_op.the_field.row
multiply_add_op_send = search sendable depth 30

pub carry_op_send : IsSend carry_op.the_field.row
carry_op_send = search sendable depth 30

pub carry_out_op_send : IsSend carry_out_op.the_field.row
carry_out_op_send = search sendable depth 30

pub compare_op_send : IsSend compare_op.the_field.row
compare_op_send = search sendable depth 30

pub fixed_op_send : IsSend fixed_op.the_field.row
fixed_op_send = search sendable depth 30

pub widen_op_send : IsSend widen_op.the_field.row
widen_op_send = search sendable depth 30

pub wide_op_send : IsSend wide_op.the_field.row
wide_op_send = search sendable depth 30

pub widen_multiply_add_op_send : IsSend widen_multiply_add_op.the_field.row
widen_multiply_add_op_send = search sendable depth 30

pub narrow_op_send : IsSend narrow_op.the_field.row
narrow_op_send = search sendable depth 30

pub clip_op_send : IsSend clip_op.the_field.row
clip_op_send = search sendable depth 30

pub fraction_send : IsSend fraction.the_field.row
fraction_send = search sendable depth 30

pub v_arith_send : IsSend v_arith.the_field.row
v_arith_send = enum_send (variants v_arith.the_type)
    ((int_op_send & reg_send & reg_send & source_send & bool_send & tt)
    & (multiply_add_op_send & reg_send & reg_send & source_send & bool_send & tt)
    & (carry_op_send & reg_send & reg_send & source_send & tt)
    & (carry_out_op_send & reg_send & reg_send & source_send & bool_send & tt)
    & (reg_send & reg_send & source_send & tt)
    & (reg_send & source_send & tt)
    & (compare_op_send & reg_send & reg_send & source_send & bool_send & tt)
    & (fixed_op_send & reg_send & reg_send & source_send & bool_send & tt)
    & (widen_op_send & reg_send & reg_send & source_send & bool_send & tt)
    & (wide_op_send & reg_send & reg_send & source_send & bool_send & tt)
    & (widen_multiply_add_op_send & reg_send & reg_send & source_send & bool_send & tt)
    & (narrow_op_send & reg_send & reg_send & source_send & bool_send & tt)
    & (clip_op_send & reg_send & reg_send & source_send & bool_send & tt)
    & (bool_send & fraction_send & reg_send & reg_send & bool_send & tt)
    & tt)

pub logic_op_send : IsSend logic_op.the_field.row
logic_op_send = search sendable depth 30

pub first_op_send : IsSend first_op.the_field.row
first_op_send = search sendable depth 30

pub v_mask_send : IsSend v_mask.the_field.row
v_mask_send = enum_send (variants v_mask.the_type)
    ((logic_op_send & reg_send & reg_send & reg_send & tt)
    & (reg_send & reg_send & bool_send & tt)
    & (reg_send & reg_send & bool_send & tt)
    & (first_op_send & reg_send & reg_send & bool_send & tt)
    & (reg_send & reg_send & bool_send & tt)
    & (reg_send & bool_send & tt)
    & tt)

pub offset_send : IsSend offset.the_field.row
offset_send = enum_send (variants offset.the_type)
    ((reg_send & tt)
    & (u32_send & tt)
    & tt)

pub v_perm_send : IsSend v_perm.the_field.row
v_perm_send = enum_send (variants v_perm.the_type)
    ((reg_send & reg_send & offset_send & bool_send & tt)
    & (reg_send & reg_send & offset_send & bool_send & tt)
    & (reg_send & reg_send & reg_send & bool_send & tt)
    & (reg_send & reg_send & reg_send & bool_send & tt)
    & (reg_send & reg_send & source_send & bool_send & tt)
    & (reg_send & reg_send & reg_send & bool_send & tt)
    & (reg_send & reg_send & reg_send & tt)
    & tt)

pub fold_op_send : IsSend fold_op.the_field.row
fold_op_send = search sendable depth 30

pub v_reduce_send : IsSend v_reduce.the_field.row
v_reduce_send = enum_send (variants v_reduce.the_type)
    ((fold_op_send & reg_send & reg_send & reg_send & bool_send & tt)
    & (bool_send & reg_send & reg_send & reg_send & bool_send & tt)
    & tt)

pub direction_send : IsSend direction.the_field.row
direction_send = search sendable depth 30

pub count_send : IsSend count.the_field.row
count_send = search sendable depth 30

pub addressing_send : IsSend addressing.the_field.row
addressing_send = enum_send (variants addressing.the_type)
    ((width_send & bool_send & tt)
    & (width_send & reg_send & bool_send & tt)
    & (width_send & reg_send & bool_send & bool_send & tt)
    & tt
    & (width_send & count_send & tt)
    & tt)

pub v_mem_send : IsSend v_mem.the_field.row
v_mem_send = struct_send (shape v_mem.the_type) (direction_send & addressing_send & reg_send & reg_send & tt)

pub v_move_send : IsSend v_move.the_field.row
v_move_send = enum_send (variants v_move.the_type)
    ((reg_send & reg_send & tt)
    & (reg_send & reg_send & tt)
    & (count_send & reg_send & reg_send & tt)
    & tt)

pub insn_send : IsSend insn.the_field.row
insn_send = enum_send (variants insn.the_type)
    ((scalar_insn_send & tt)
    & (csr_insn_send & tt)
    & (v_set_send & tt)
    & (v_arith_send & tt)
    & (v_mask_send & tt)
    & (v_perm_send & tt)
    & (v_reduce_send & tt)
    & (v_mem_send & tt)
    & (v_move_send & tt)
    & tt)
