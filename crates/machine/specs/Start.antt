-- The state in which a run starts.
use Rattle.std.specs.Prelude.{ℕ, List, slice_index_or, unwrap_or}
use Rattle.elf_image.specs.Image.{ImageView}
use Rattle.region_mem.specs.declared.parameter.Param.{Param}
use Rattle.region_mem.specs.{Parameter.Argument, Parameter.address_of, Start.start_memory}
use Rattle.scalar_core.specs.Entry.{entry_hart}
use Rattle.region_mem.specs.declared.arguments.Arg.TheVariants as argument
use Rattle.vector_core.specs.Words.{Agnostic, Hart}
use Rattle.vector_core.specs.Vectors.{new_vectors}
use Rattle.machine.specs.Machine.{Machine}

-- what an argument at a place passes: 0 for none, the scalar, or the buffer's address
unfoldable pub passed_number : List Param → ℕ → Argument → ℕ
passed_number params place argument.None = 0
passed_number params place (argument.Scalar value) = value
passed_number params place (argument.Buffer bytes) = unwrap_or (address_of place params) 0

-- what is passed at a place; past the arguments it is 0
abbrev pub passed_at : List Param → List Argument → ℕ → ℕ
passed_at params args place = passed_number params place (slice_index_or args place argument.None)

-- the hart in which a run starts
unfoldable pub start_hart : ℕ → List Param → List Argument → Hart
start_hart entry params args = entry_hart entry (passed_at params args)

-- the first state of a run
unfoldable pub start : ℕ → Agnostic → ImageView → List Param → List Argument → Machine
start vlenb agnostic image params args = record {
  hart = start_hart image.entry params args;
  vectors = new_vectors vlenb agnostic;
  memory = start_memory image params args;
}
