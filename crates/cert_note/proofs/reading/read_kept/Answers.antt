use Rattle.std.proofs.Common.{refl, arith}
use Rattle.cert_note.proofs.Whole.{certificate_takes}
use Rattle.cert_note.proofs.EvidenceLemmas.{refused_front, refused_block, refused_behind, all_is_read, all_kept}
use Rattle.cert_note.proofs.reading.read_kept.Goals as goal

pub returns-in-Err-clause-refused : goal.returns-in-Err-clause-refused
returns-in-Err-clause-refused g c =
    rw c.refusal_of.ensures (refused_front c.args.bytes.now c.in-Err.fault c.in-Err.ensures)

pub returns-in-Err-blocks_at-clause-refused : goal.returns-in-Err-blocks_at-clause-refused
returns-in-Err-blocks_at-clause-refused g c =
    let stopped = c.in-Err-blocks_at in
    rw c.refusal_of-in-Err-blocks_at.ensures
    (refused_block c.args.bytes.now c.in-Ok.read.0 c.in-Ok.read.1.now stopped.fault stopped.block c.in-Ok.ensures stopped.ensures.refused)

pub returns-in-Err-nothing_at-clause-refused : goal.returns-in-Err-nothing_at-clause-refused
returns-in-Err-nothing_at-clause-refused g c =
    let all = c.in-Ok-blocks_at.ensures.read in
    rw c.refusal_of-in-Err-nothing_at.ensures
    (refused_behind c.args.bytes.now c.in-Ok.read.0 c.in-Ok.read.1.now all.0 c.in-Ok-blocks_at.read.1.now c.in-Err-nothing_at.fault c.in-Ok.ensures all.1 c.in-Err-nothing_at.ensures)

pub new-requires : goal.new-requires
new-requires g c =
    let all = c.in-Ok-blocks_at.ensures.read in
    let kept = all_kept (λ v. v.items) c.in-Ok-blocks_at.read.0 _ all.0 c.in-Some.is all.2 in
    let read = all_is_read c.args.bytes.now c.in-Ok.read.0 c.in-Ok.read.1.now _ all.0 c.in-Ok-blocks_at.read.1.now c.in-Ok.ensures kept all.1 c.in_default.ensures in
    (certificate_takes c.args.bytes.now _ (λ i. omega (arith, c.type_inv.bytes i)) read).0

pub returns-in-Some-clause-read : goal.returns-in-Some-clause-read
returns-in-Some-clause-read g c =
    let all = c.in-Ok-blocks_at.ensures.read in
    let kept = all_kept (λ v. v.items) c.in-Ok-blocks_at.read.0 _ all.0 c.in-Some.is all.2 in
    rw c.new.ensures
    (all_is_read c.args.bytes.now c.in-Ok.read.0 c.in-Ok.read.1.now _ all.0 c.in-Ok-blocks_at.read.1.now c.in-Ok.ensures kept all.1 c.in_default.ensures)

pub returns-in-None-clause-refused : goal.returns-in-None-clause-refused
returns-in-None-clause-refused g c =
    let all = c.in-Ok-blocks_at.ensures.read in
    rw (all_is_read c.args.bytes.now c.in-Ok.read.0 c.in-Ok.read.1.now all.0 all.0 c.in-Ok-blocks_at.read.1.now c.in-Ok.ensures refl all.1 c.in_default.ensures) refl
