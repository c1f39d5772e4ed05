-- Why no certificate was made, with what is known of the word that does not fit.
use Rattle.std.specs.Prelude.{ℕ, ◌+◌, ◌==◌, Option, Some, None, if◌then◌else◌}
use Rattle.std.specs.Option.{option_and_then}
use Rattle.elf_image.specs.Image.{ImageView, code_at}
use Rattle.rv_decode.specs.Decode.{meaning_of}
use Rattle.rv_decode.specs.declared.instructions.Insn.{Insn}
use Rattle.rv_decode.specs.declared.instructions.Insn.TheVariants as insn
use Rattle.rv_decode.specs.declared.instructions.ScalarInsn.{ScalarInsn}
use Rattle.rv_decode.specs.declared.instructions.ScalarInsn.TheVariants as scalar
use Rattle.cert_maker.specs.declared.errors.MakeError.{MakeError}
use Rattle.cert_maker.specs.declared.errors.MakeError.TheVariants as error
use Rattle.cert_maker.specs.declared.refusal.LoopRow.{LoopRow}
use Rattle.cert_maker.specs.declared.refusal.LoopRow.TheVariants as row
use Rattle.cert_maker.specs.declared.refusal.MakeRefusal.{MakeRefusal}
use Rattle.cert_maker.specs.declared.refusal.MakeRefusal.TheVariants as refusal
use Rattle.cert_maker.specs.declared.refusal.Misfit.{Misfit}

-- the error by itself
abbrev pub error_of : MakeRefusal → MakeError
error_of (refusal.Misfit misfit) = error.NotALoopOfTheClass misfit.pc
error_of refusal.NoMemory = error.NoMemory

-- which row of a plain loop is wanted behind the second one, by what stands there
abbrev pub scalar_row : ScalarInsn → LoopRow
scalar_row (scalar.ShiftImmediate op rd rs1 amount) = row.Shift
scalar_row (scalar.Lui rd imm) = row.Later
scalar_row (scalar.Auipc rd imm) = row.Later
scalar_row (scalar.Jal rd offset) = row.Later
scalar_row (scalar.Jalr rd rs1 offset) = row.Later
scalar_row (scalar.Branch condition rs1 rs2 offset) = row.Later
scalar_row (scalar.Load kind rd rs1 offset) = row.Later
scalar_row (scalar.Store size rs1 rs2 offset) = row.Later
scalar_row (scalar.Immediate op rd rs1 imm) = row.Later
scalar_row (scalar.Register op rd rs1 rs2) = row.Later
scalar_row scalar.Fence = row.Later
scalar_row scalar.Ecall = row.Later

abbrev pub row_behind : Option Insn → LoopRow
row_behind None = row.Later
row_behind (Some (insn.VMem i)) = row.Access
row_behind (Some (insn.Scalar i)) = scalar_row i
row_behind (Some (insn.Csr i)) = row.Later
row_behind (Some (insn.VSet i)) = row.Later
row_behind (Some (insn.VArith i)) = row.Later
row_behind (Some (insn.VMask i)) = row.Later
row_behind (Some (insn.VPerm i)) = row.Later
row_behind (Some (insn.VReduce i)) = row.Later
row_behind (Some (insn.VMove i)) = row.Later

-- and which at an address, for a loop that begins at the entry
abbrev pub row_of : ℕ → ℕ → Option Insn → LoopRow
row_of entry pc there = if pc == entry then row.Count
    else (if pc == entry + 4 then row.Length else row_behind there)

-- the word at an address of an image, which does not fit
abbrev pub misfit_at : ImageView → ℕ → Misfit
misfit_at image pc = record {
  pc = pc;
  word = code_at pc image;
  row = row_of image.entry pc (option_and_then meaning_of (code_at pc image));
}
