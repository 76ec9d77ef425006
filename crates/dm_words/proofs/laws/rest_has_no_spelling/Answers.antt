use Rattle.dm_words.proofs.Values.{rest_begins_no_spelling, no_spelling_is_rest}
use Rattle.dm_words.proofs.laws.rest_has_no_spelling.Goals as goal

pub returns : goal.returns
returns c = λ set values fit.
    ((λ r. rest_begins_no_spelling set values r), (λ none. no_spelling_is_rest set values fit none))
