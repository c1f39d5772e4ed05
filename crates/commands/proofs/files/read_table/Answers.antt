use Rattle.std.proofs.Common.{inl}
use Rattle.toml.specs.View.{table_view}
use Rattle.file_store.specs.Store.{files_of}
use Rattle.commands.proofs.CommandLemmas.{handed_on, table_first, table_read}
use Rattle.commands.proofs.files.read_table.Goals as goal

pub returns-in_err-text-clause-table : goal.returns-in_err-text-clause-table
returns-in_err-text-clause-table g c =
    handed_on _ _ _ _ c.from_residual.ensures.1 (inl c.in_err-text.ensures.bytes)

pub returns-clause-table : goal.returns-clause-table
returns-clause-table g c =
    table_read table_view (files_of (g.S.Store.held c.args.store.now)) c.args.path.now c.in_ok-text.text.items c.as_slice.result.now c.table_of.result c.as_slice.ensures.value c.in_ok-text.ensures.bytes c.table_of.ensures

pub returns-clause-first : goal.returns-clause-first
returns-clause-first g c =
    table_first table_view (g.S.Store.known c.args.store.now) c.args.path.now _ c.in_ok-text.text.items c.as_slice.result.now c.table_of.result c.as_slice.ensures.value c.in_ok-text.ensures.first c.table_of.ensures
