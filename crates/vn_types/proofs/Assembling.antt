-- The laws of lists of keys with values stand in EntryLaws.
pub use Rattle.vn_types.proofs.EntryLaws.{set_value-insert_entry}
