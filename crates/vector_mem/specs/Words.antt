-- What several definitions here speak of.
pub use Rattle.rv_decode.specs.declared.instructions.{Addressing.Addressing, Direction.Direction, VMem.VMem, Width.Width}
pub use Rattle.rv_decode.specs.declared.instructions.Direction.TheVariants.{Load, Store}
pub use Rattle.rv_decode.specs.declared.instructions.Addressing.TheVariants.{Unit, Strided, Indexed, Mask, Whole}
pub use Rattle.rv_decode.specs.declared.instructions.Width.TheVariants.{W8}
pub use Rattle.rv_decode.specs.declared.extents.Eew.TheVariants.{Same, Fixed}
pub use Rattle.region_mem.specs.Memory.{Memory}
pub use Rattle.region_mem.specs.declared.faults.Fault.{Fault}
pub use Rattle.region_mem.specs.declared.faults.Fault.TheVariants.{LoadFault, StoreFault}
pub use Rattle.region_mem.specs.declared.faults.Right.{Right}
pub use Rattle.region_mem.specs.declared.faults.Right.TheVariants.{Read, Write}
pub use Rattle.vreg_groups.specs.Elements.{active_of}
pub use Rattle.vreg_groups.specs.Group.{Span, body_of, mask_bytes_of, whole_of, written}
pub use Rattle.vreg_groups.specs.NewElements.{mask_policy_of, policy_of}
pub use Rattle.vreg_groups.specs.Setup.{group_at}
pub use Rattle.rv_decode.specs.Instructions.{bytes_of_width}
pub use Rattle.vreg_groups.specs.declared.policies.Policy.{Policy}
pub use Rattle.vreg_groups.specs.declared.setup.Setup.{Setup}
pub use Rattle.vector_mem.specs.declared.plan.Access.{Access}
