-- What normalising gives, be it of a grid or of a symbol of any size. What is normalised may have a normal one, or be
-- read and have none, since what it says is too long, or be refused when it is read; each of these says which it is.
-- `read` makes a fault of normalising of one of reading, and `long` is that what is said is too long.
use Rattle.std.specs.Prelude.{◌≡◌, Result, Ok, Err, OnOk, OnErr, ◌↔◌}
use Rattle.dm_words.specs.Outcomes.{outcome}

-- The result is the normal one of what is read; or that there is none; or the fault of reading.
pub data IsNormalOrFault {N F E : Type 0} (read : F → E) (long : E) (has : N → Type 0) (has_none : Type 0)
    (refused : F → Type 0) (result : Result N E) : Type 0 where
  normal : (is : N) → has is → result ≡ Ok is → IsNormalOrFault read long has has_none refused result
  too_long : has_none → result ≡ Err long → IsNormalOrFault read long has has_none refused result
  fault : (why : F) → refused why → result ≡ Err (read why) → IsNormalOrFault read long has has_none refused result

-- What normalising gives: the result defined above; and each kind of result is given exactly where its condition holds.
pub record IsNormalGiven {N F E : Type 0} (read : F → E) (long : E) (has : N → Type 0) (has_none : Type 0)
    (refused : F → Type 0) (result : Result N E) : Type 0 where
  pub result_is : IsNormalOrFault read long has has_none refused result
  pub normal : (is : N) → (result ≡ Ok is) ↔ has is
  pub too_long : (result ≡ Err long) ↔ has_none
  pub fault : (why : F) → (result ≡ Err (read why)) ↔ refused why

-- What normalising leaves in a target that held `before`, and then holds `after`: the outcome is what it gives; `said`
-- is so, that another target holds what is read, where there is a normal one and where what is said is too long; after
-- a fault the target is as it was.
pub record IsNormalLeft {N U F E : Type 0} (read : F → E) (long : E) (has : N → Type 0) (has_none : Type 0)
    (refused : F → Type 0) (said : Type 0) (done : Result U E) (before after : N) : Type 0 where
  pub normal : IsNormalGiven read long has has_none refused (outcome done after)
  pub reading_is : OnOk done said
  pub reading_of_long : done ≡ Err long → said
  pub same : OnErr done (after ≡ before)
