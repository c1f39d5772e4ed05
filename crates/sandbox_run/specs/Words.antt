-- What definitions here speak of that other crates define.
pub use Rattle.std.specs.List.{AllByRecursion}
pub use Rattle.elf_image.specs.Image.{ImageView}
pub use Rattle.vreg_groups.specs.{VectorLength.vlenb_of, declared.policies.Agnostic.Agnostic}
pub use Rattle.region_mem.specs.{Laws.BringsBytes, Laws.ForEachStart, Laws.HasExtentsOf, Memory.Memory, Memory.args_of, Memory.fetch_of}
pub use Rattle.region_mem.specs.{Parameter.Argument, Parameter.AreArguments, Parameter.argument_error, Start.is_writable, Start.start_memory}
pub use Rattle.region_mem.specs.declared.{faults.Fault.Fault, parameter.ArgError.ArgError, parameter.Param.Param}
pub use Rattle.machine.specs.{Kept.Keeps, Machine.Machine, Permitted.IsPermittedIn, Permitted.IsPermittedStep, Start.start}
pub use Rattle.machine.specs.Run.{Stop, Ended, Trapped, OutOfSteps, GoesOnUntil, after, has_ended, outcome, outcome_from}
pub use Rattle.block_checker.specs.{Accepted.AcceptedView, Bound.bound_of, Bound.scalars_of}
