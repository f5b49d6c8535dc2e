-- How the items of a list are read, one after another.
use Rattle.std.proofs.Common.{◌≡◌, ◌<◌, List, [], ◌∷◌, ◌++◌, append_assoc, append-nil, refl, sym, subst}
use Rattle.std.proofs.Common.{arith, inl, inr}
use Rattle.serde_json.specs.Data.{Data, Items, item, no_items}
use Rattle.lsp_json.specs.JsonRef.{items_count}
use Rattle.lsp_types.specs.Reads.{EachItem, FittingItems, NoneReads}

-- the values of the first items of a list were read, and these items are left
pub record ReadBefore {T : Type 0} (reads : Data → T → Type 0) (all left : Items) (values : List T) : Type 0 where
  pub goes_on : (more : List T) → EachItem reads left more → EachItem reads all (values ++ more)
  pub rest_of : (found : List T) → EachItem reads all found → (more : List T) × EachItem reads left more

-- none was read yet
pub before_all : {T : Type 0} (reads : Data → T → Type 0) (all : Items) → ReadBefore reads all all []
before_all reads all = record { goes_on = λ more each. each; rest_of = λ found each. (found, each) }

-- what is read from a list with a first item has a first value
after_first : {T : Type 0} (reads : Data → T → Type 0) (json : Data) (rest : Items) (found : List T)
    → EachItem reads (item json rest) found → (more : List T) × EachItem reads rest more
after_first reads json rest [] each = absurd each
after_first reads json rest (x ∷ more) each = (more, each.1)

first_of : {T : Type 0} (reads : Data → T → Type 0) (json : Data) (rest : Items) (found : List T)
    → EachItem reads (item json rest) found → (it : T) × reads json it
first_of reads json rest [] each = absurd each
first_of reads json rest (x ∷ more) each = (x, each.0)

-- one more
pub before_more : {T : Type 0} (reads : Data → T → Type 0) (all left : Items) (json : Data) (rest : Items)
    (values : List T) (value : T) → ReadBefore reads all left values → left ≡ item json rest → reads json value
    → ReadBefore reads all rest (values ++ value ∷ [])
before_more reads all left json rest values value before step one = record {
  goes_on = λ more each. subst (EachItem reads all) (sym (append_assoc values (value ∷ []) more))
      (before.goes_on (value ∷ more) (subst (λ items. EachItem reads items (value ∷ more)) (sym step) (one, each)));
  rest_of = λ found each. let left = before.rest_of found each in
      after_first reads json rest left.0 (subst (λ items. EachItem reads items left.0) step left.1);
}

-- all of them
pub all_before : {T : Type 0} (reads : Data → T → Type 0) (all left : Items) (values : List T)
    → ReadBefore reads all left values → left ≡ no_items → EachItem reads all values
all_before reads all left values before none =
    subst (EachItem reads all) (append-nil values)
    (before.goes_on [] (subst (λ items. EachItem reads items []) (sym none) tt))

-- the next of them has a value, if all have one
pub next_fits : {T : Type 0} (reads : Data → T → Type 0) (all left : Items) (json : Data) (rest : Items)
    (values found : List T) → ReadBefore reads all left values → left ≡ item json rest → EachItem reads all found
    → (it : T) × reads json it
next_fits reads all left json rest values found before step each =
    let left = before.rest_of found each in
    first_of reads json rest left.0 (subst (λ items. EachItem reads items left.0) step left.1)

-- the values of the first items that fit were read, and these items are left
pub record FitBefore {T : Type 0} (reads : Data → T → Type 0) (all left : Items) (values : List T) : Type 0 where
  pub goes_on : (more : List T) → FittingItems reads left more → FittingItems reads all (values ++ more)

pub fit_before_all : {T : Type 0} (reads : Data → T → Type 0) (all : Items) → FitBefore reads all all []
fit_before_all reads all = record { goes_on = λ more fit. fit }

-- one more that fits
pub fits_more : {T : Type 0} (reads : Data → T → Type 0) (all left : Items) (json : Data) (rest : Items)
    (values : List T) (value : T) → FitBefore reads all left values → left ≡ item json rest → reads json value
    → FitBefore reads all rest (values ++ value ∷ [])
fits_more reads all left json rest values value before step one = record {
  goes_on = λ more fit. subst (FittingItems reads all) (sym (append_assoc values (value ∷ []) more))
      (before.goes_on (value ∷ more) (subst (λ items. FittingItems reads items (value ∷ more)) (sym step)
      (inl (value, more, refl, one, fit))));
}

-- one more that does not
pub fits_not : {T : Type 0} (reads : Data → T → Type 0) (all left : Items) (json : Data) (rest : Items)
    (values : List T) → FitBefore reads all left values → left ≡ item json rest → NoneReads reads json
    → FitBefore reads all rest values
fits_not reads all left json rest values before step unfit = record {
  goes_on = λ more fit. before.goes_on more (subst (λ items. FittingItems reads items more) (sym step)
      (inr (unfit, fit)));
}

-- all that fit
pub all_fit : {T : Type 0} (reads : Data → T → Type 0) (all left : Items) (values : List T)
    → FitBefore reads all left values → left ≡ no_items → FittingItems reads all values
all_fit reads all left values before none =
    subst (FittingItems reads all) (append-nil values)
    (before.goes_on [] (subst (λ items. FittingItems reads items []) (sym none) refl))

-- each item makes those that are left fewer
pub fewer : (left : Items) (json : Data) (rest : Items) → left ≡ item json rest → items_count rest < items_count left
fewer left json rest step = subst (λ items. items_count rest < items_count items) (sym step) (omega arith)
