use Rattle.std.proofs.Common.{arith, ◌++◌}
use Rattle.elf_image.proofs.EvidenceLemmas.{is_refused, is_told_of, none_told}
use Rattle.elf_image.proofs.HasImage.{has_image}
use Rattle.std.proofs.lemmas.Grind.{common_steps}
use Rattle.elf_image.specs.Faults.{fault_of, header_faults, note_faults, segment_faults}
use Rattle.elf_image.proofs.reading.read_kept.Goals as goal

pub returns-in_err-check_header_kept-clause-refused : goal.returns-in_err-check_header_kept-clause-refused
unfolding fault_of
returns-in_err-check_header_kept-clause-refused g c =
    let told = is_refused header_faults (segment_faults ++ note_faults) c.args.file.now _ c.in_err-check_header_kept.ensures.value in
    grind (arith, common_steps, told.0, told.1)

pub returns-in_err-check_header_kept-clause-image : goal.returns-in_err-check_header_kept-clause-image
unfolding fault_of
returns-in_err-check_header_kept-clause-image g c =
    let told = is_refused header_faults (segment_faults ++ note_faults) c.args.file.now _ c.in_err-check_header_kept.ensures.value in
    grind (arith, common_steps, told.0, told.1)

pub returns-in_err-check_segments_kept-clause-refused : goal.returns-in_err-check_segments_kept-clause-refused
unfolding fault_of
returns-in_err-check_segments_kept-clause-refused g c =
    let behind = is_told_of header_faults (segment_faults ++ note_faults) c.args.file.now c.in_ok-check_header_kept.ensures.value in
    let told = is_refused segment_faults note_faults c.args.file.now _ c.in_err-check_segments_kept.ensures in
    grind (arith, common_steps, behind, told.0, told.1)

pub returns-in_err-check_segments_kept-clause-image : goal.returns-in_err-check_segments_kept-clause-image
unfolding fault_of
returns-in_err-check_segments_kept-clause-image g c =
    let behind = is_told_of header_faults (segment_faults ++ note_faults) c.args.file.now c.in_ok-check_header_kept.ensures.value in
    let told = is_refused segment_faults note_faults c.args.file.now _ c.in_err-check_segments_kept.ensures in
    grind (arith, common_steps, behind, told.0, told.1)

pub certificate-requires-clause-inside : goal.certificate-requires-clause-inside
certificate-requires-clause-inside g c =
    let none = none_told segment_faults c.args.file.now c.in_ok-check_segments_kept.ensures in
    rw (c.as_slice.ensures.value, c.read-headers.ensures)
    ((has_image c.args.file.now (λ i. omega (arith, c.type_inv.file i)) none).notes)

pub load-requires-clause-image : goal.load-requires-clause-image
load-requires-clause-image g c =
    has_image c.args.file.now (λ i. omega (arith, c.type_inv.file i)) (none_told segment_faults c.args.file.now c.in_ok-check_segments_kept.ensures)
