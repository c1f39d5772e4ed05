-- Types of this crate that definitions speak of, the variants whose name alone says whose they
-- are (another is named with its type, as `Param.Buffer`), and the addresses and
-- sizes that are fixed.
pub use Rattle.region_mem.specs.declared.parameter.{Param.Param, ArgError.ArgError}
pub use Rattle.region_mem.specs.declared.parameter.Mode.TheVariants.{ReadWrite}
pub use Rattle.region_mem.specs.declared.parameter.ArgError.TheVariants.{WrongKind, ScalarOutOfInterval, WrongSize}
pub use Rattle.region_mem.specs.declared.arguments.{Arg.Arg, Passed.Passed}
pub use Rattle.region_mem.specs.declared.faults.{Right.Right, Fault.Fault}
pub use Rattle.region_mem.specs.declared.faults.Right.TheVariants.{Read, Write, Fetch}
pub use Rattle.region_mem.specs.declared.layout.TheConstants.{BUFFERS, BUFFERS_END, MAX_BUFFER_SIZE, PAGE_SIZE, STACK, STACK_SIZE}
pub use Rattle.elf_image.specs.declared.layout.TheConstants.{HIGH_SEGMENTS_END}
