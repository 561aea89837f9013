use Rattle.vn_laws.proofs.ReaderTexts.{removed_unread_is, removed_read_is, lists_is, lists_text_is, host_is, absent_is}
use Rattle.vn_laws.proofs.rows.law_of_worked_readers.Goals as goal

pub returns : goal.returns
returns c = record { unread = removed_unread_is; read = removed_read_is; lists = lists_is; listed = lists_text_is; host = host_is; absent = absent_is }
