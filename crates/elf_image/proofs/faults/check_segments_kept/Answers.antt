use Rattle.std.proofs.Common.{◌≡◌, Err, ◌∷◌, [], rules}
use Rattle.elf_image.specs.Faults.{place_faults}
use Rattle.elf_image.specs.declared.error.ElfError.TheVariants.{EntryNotCode, TooLarge}
use Rattle.elf_image.proofs.EvidenceLemmas.{is_next}
use Rattle.elf_image.proofs.faults.check_segments_kept.Goals as goal

pub returns-in_err-check_large : goal.returns-in_err-check_large
returns-in_err-check_large c =
    let that = is_next place_faults (EntryNotCode ∷ []) c.args.file.now TooLarge _ c.in_ok-check_places_kept.ensures c.in_err-check_large.ensures in
    let passed_up : c.from_residual-in_err-check_large.result ≡ Err c.in_err-check_large.field-0.0 = search rules in
    rw passed_up that
