use Rattle.std.proofs.Common.{◌≡◌, ℕ, length-append, arith, refl, sym}
use Rattle.std.proofs.lemmas.List.FromFn.{map-range_with_len_more}
use Rattle.elf_image.specs.File.{header_offset, program_header_at}
use Rattle.elf_image.proofs.header.HeaderTable.read.Goals as goal

pub loop-i-preserved : goal.loop-i-preserved
loop-i-preserved c =
    let file = c.args.file.now in
    let entry = λ (i : ℕ). program_header_at (header_offset i file) file in
    let i = c.loop-i.i in
    let here : c.program_header_at.result ≡ entry i = rw (c.program_header_at.ensures, c.header_offset.ensures) refl in
    (rw (c.push.ensures, c.loop-i.invariant.0, here) (sym (map-range_with_len_more entry 0 i i (omega arith))), rw (c.push.ensures, length-append) (omega arith))
