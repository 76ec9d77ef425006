-- What the crates above cite of the proofs of this one: facts of its definitions.
pub use Rattle.dm_words.proofs.Extents.{said_wide}
pub use Rattle.dm_words.proofs.Fnc1Places.{identifier_is_one, identifier_is_there}
pub use Rattle.dm_words.proofs.SpelledContents.{macro_short}
pub use Rattle.dm_words.proofs.MessageReadings.{usual_plain, usual_word}
pub use Rattle.dm_words.proofs.ContentResults.{said_is_one, said_not_refused, refused_is_one, one_content, form_says_in}
pub use Rattle.dm_words.proofs.Marks.{more_items, one_more}
pub use Rattle.dm_words.proofs.ContentBytes.{content_form_codewords}
pub use Rattle.dm_words.proofs.ContentCounts.{content_form_counts}
pub use Rattle.dm_words.proofs.ContentForms.{content_form_count}
pub use Rattle.dm_words.proofs.SaidBounds.{said_few, spelled_is_few}
pub use Rattle.dm_words.proofs.SaidContents.{said_is_content}
pub use Rattle.dm_words.proofs.SpelledBounds.{room_for_spelled}
pub use Rattle.dm_words.proofs.NormalPlain.{content_form_plain}
