-- What is read of the file is what its reader gives.
use Rattle.std.proofs.Common.{◌≡◌, ◌≤◌, ◌+◌, ◌∙◌, ℕ, Vec, Global, None, OnOk, arith, inl, refl, subst, true}
use Rattle.std.proofs.lemmas.Result.{IfOk-from_err}
use Rattle.file_store.specs.Sources.{IsUnread, source}
use Rattle.file_store.specs.SourceLemmas.{firsts, one_failed, unread_if, unread_since}
use Rattle.file_store.proofs.store.read_file.Goals as goal

pub returns-clause-first : goal.returns-clause-first
returns-clause-first g c =
    firsts (λ (bytes : Vec ℕ Global). bytes.items) _ _ _ _ _ c.read_opened.result c.in_ok-file.ensures.opened c.read_opened.ensures.bytes
    c.read_opened.ensures.most c.read_opened.ensures.end

pub returns-clause-most : goal.returns-clause-most
returns-clause-most g c = c.read_opened.ensures.most

pub returns-clause-kept : goal.returns-clause-kept
returns-clause-kept g c = c.read_opened.ensures.kept ∙ c.open.ensures.kept

pub returns-clause-few : goal.returns-clause-few
returns-clause-few g c =
    subst (λ n. g.D.System.reads c.read_opened.new.system ≤ n + c.args.reads) c.open.ensures.reads c.read_opened.ensures.few

pub returns-clause-heard : goal.returns-clause-heard
returns-clause-heard g c =
    subst (λ n. OnOk c.read_opened.result (g.D.System.failures c.read_opened.new.system ≡ n)) c.in_ok-file.ensures.failures c.read_opened.ensures.heard

pub returns-clause-unread : goal.returns-clause-unread
returns-clause-unread g c =
    unread_since c.read_opened.result _ _ _ _ _ _ _ c.open.ensures.reads c.in_ok-file.ensures.failures c.read_opened.ensures.unread

pub returns-in_err-file-clause-kept : goal.returns-in_err-file-clause-kept
returns-in_err-file-clause-kept g c = c.open.ensures.kept

pub returns-in_err-file-clause-few : goal.returns-in_err-file-clause-few
returns-in_err-file-clause-few g c = omega (arith, c.open.ensures.reads)

pub returns-in_err-file-clause-heard : goal.returns-in_err-file-clause-heard
returns-in_err-file-clause-heard g c =
    IfOk-from_err c.from_residual.result (λ _. g.D.System.failures c.open.new.self ≡ g.D.System.failures c.args.system.now)
    c.from_residual.ensures.0

pub returns-in_err-file-clause-unread : goal.returns-in_err-file-clause-unread
returns-in_err-file-clause-unread g c =
    unread_if c.from_residual.result
    (IsUnread c.args.reads (source None (g.D.System.reads c.args.system.now) (g.D.System.failures c.args.system.now))
    (source None (g.D.System.reads c.open.new.self) (g.D.System.failures c.open.new.self)))
    (inl (one_failed true _ _ _ refl c.in_err-file.ensures.failures refl))
