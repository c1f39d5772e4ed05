use Rattle.std.proofs.Common.{rules, inl}
use Rattle.file_store.specs.Store.{files_of}
use Rattle.commands.proofs.CommandLemmas.{handed_on, image_first, image_read}
use Rattle.commands.proofs.files.read_image.Goals as goal

pub returns-in_err-bytes-clause-image : goal.returns-in_err-bytes-clause-image
returns-in_err-bytes-clause-image g c =
    handed_on _ _ _ _ c.from_residual.ensures.1 (inl c.in_err-bytes.ensures.bytes)

pub returns-clause-image : goal.returns-clause-image
returns-clause-image g c =
    image_read (files_of (g.S.Store.held c.args.store.now)) c.args.path.now c.in_ok-bytes.bytes.items c.as_slice.result.now c.image_in.result (search rules) c.in_ok-bytes.ensures.bytes c.image_in.ensures.image c.image_in.ensures.told

pub returns-clause-first : goal.returns-clause-first
returns-clause-first g c =
    image_first (g.S.Store.known c.args.store.now) c.args.path.now _ c.in_ok-bytes.bytes.items c.as_slice.result.now c.image_in.result (search rules) c.in_ok-bytes.ensures.first c.image_in.ensures.image
