-- The steps of joined rules, from the values of their sections.
use Rattle.std.proofs.Common.{ℕ, ℤ, ◌≡◌, ◌<◌, ◌≤◌, ◌≤ℤ◌, ◌+◌, ◌-◌, ◌∙◌, ◌⊎◌, List, [], length, get_or, subst, sym, ap, arith, inl, inr, pos, zero, suc, refl}
use Rattle.std.proofs.lemmas.Int.{ints}
use Rattle.std.proofs.lemmas.Bool.{cases_lt, cases_eq}
use Rattle.rail_specs.specs.declared.StepNumbers.{StepNumbers}
use Rattle.rail_specs.specs.Rules.{no_step}
use Rattle.rail_specs.specs.Step.{step_of_train}
use Rattle.line_file.specs.declared.sections.Section.{Section}
use Rattle.line_file.specs.LineText.{first_from}
use Rattle.line_file.specs.Shape.{section_at, AreSections}
use Rattle.train_file.specs.declared.train.Train.{Train}
use Rattle.train_file.specs.Shape.{numbers_of}
use Rattle.joined_rules.specs.declared.setup.Stretch.{Stretch}
use Rattle.joined_rules.specs.Joined.{stretch_at, LiesIn, MeetsSection, MeetsStretch, IsLeastLimit, IsStepOf}
use Rattle.joined_rules.specs.JoinedParts.{AreRows, AreValues, Follow, IsFirstUnder, IsLeastFrom, IsLowered, LieAlong, Rising}
use Rattle.joined_rules.proofs.JoinedRising.{places_not_above}

-- a section begins at or above the end of each earlier one
later_section : (low high : ℤ) (sections : List Section) → AreSections low high sections → (i j : ℕ) → i < j → j < length sections → (section_at sections i).to ≤ (section_at sections j).from
later_section low high sections h i zero l m = absurd (omega arith)
later_section low high sections h i (suc j) l m =
    let at : j + 1 ≡ suc j = omega arith in
    let from : (section_at sections (suc j)).from ≡ (section_at sections j).to = subst (λ (k : ℕ). (section_at sections k).from ≡ (section_at sections j).to) at (h.follow j (omega (arith, m))) in
    elim (cases_eq i j) [
      | inl e ↦ (let same : (section_at sections i).to ≡ (section_at sections j).to = ap (λ (k : ℕ). (section_at sections k).to) e in omega (arith, same, from))
      | inr ne ↦ omega (arith, from, (h.each j (omega (arith, m))).long, later_section low high sections h i j (omega arith) (omega (arith, m)))
    ]

-- sections begin and end at or above each earlier one's start and end
pub starts_rise : (low high : ℤ) (sections : List Section) → AreSections low high sections → (i j : ℕ) → i ≤ j → j < length sections → (section_at sections i).from ≤ (section_at sections j).from
starts_rise low high sections h i j l m = elim (cases_lt i j) [
  | inl b ↦ omega (arith, later_section low high sections h i j b m, (h.each i (omega (arith, b, m))).long)
  | inr g ↦ (let e : i ≡ j = omega (arith, l, g) in let same : (section_at sections i).from ≡ (section_at sections j).from = ap (λ (k : ℕ). (section_at sections k).from) e in omega (arith, same))
]

ends_rise : (low high : ℤ) (sections : List Section) → AreSections low high sections → (i j : ℕ) → i ≤ j → j < length sections → (section_at sections i).to ≤ (section_at sections j).to
ends_rise low high sections h i j l m = elim (cases_lt i j) [
  | inl b ↦ omega (arith, later_section low high sections h i j b m, (h.each j m).long)
  | inr g ↦ (let e : i ≡ j = omega (arith, l, g) in let same : (section_at sections i).to ≡ (section_at sections j).to = ap (λ (k : ℕ). (section_at sections k).to) e in omega (arith, same))
]

-- the first section that the tail hasn't left begins at or behind the head
pub first_begun : (sections : List Section) (places : List ℕ) (metres i k : ℕ) → Follow sections → LieAlong sections places → i < length places → IsFirstUnder sections metres (get_or places i 0) k →
    (section_at sections k).from ≤ get_or places i 0
first_begun sections places metres i k follow along l first = elim (cases_eq k 0) [
  | inl e ↦ (let same : (section_at sections k).from ≡ first_from sections = ap (λ (j : ℕ). (section_at sections j).from) e in
      omega (arith, same, along.begun, places_not_above places along.rising 0 i (omega arith) l))
  | inr ne ↦ (let at : k - 1 + 1 ≡ k = omega (arith, ne) in
      let from : (section_at sections k).from ≡ (section_at sections (k - 1)).to = subst (λ (j : ℕ). (section_at sections j).from ≡ (section_at sections (k - 1)).to) at (follow (k - 1) (omega (arith, first.there, ne))) in
      omega (arith, from, first.behind (k - 1) (omega (arith, ne))))
]

-- the least limit of a step with no stretch
pub least : (sections : List Section) (metres s e k v : ℕ) → AreSections (pos 1) (pos 12000) sections →
    IsFirstUnder sections metres s k → IsLeastFrom sections k e v → IsLeastLimit sections [] metres s e v
least sections metres s e k v h first from = record {
  of_sections = λ j l m.
      let after : k ≤ j = elim (cases_lt j k) [ inl early ↦ absurd (omega (arith, first.behind j early, m.1)) | inr g ↦ g ] in
      from.below j after l m.0;
  of_stretches = λ j l m. absurd (omega (arith, l));
  reached =
      let j = from.reached.0 in
      let out : (section_at sections k).to ≤ (section_at sections j).to = ends_rise (pos 1) (pos 12000) sections h k j from.reached.1 from.reached.2 in
      inl (j, from.reached.2, (from.reached.3, omega (arith, first.under, out)), from.reached.4);
}

-- v is the least limit of the sections and of the first n stretches that meet a train of so many metres on the step from s to e
pub record IsLeastOf (sections : List Section) (stretches : List Stretch) (n metres s e v : ℕ) : Type 0 where
  pub of_sections : (k : ℕ) → k < length sections → MeetsSection metres (section_at sections k) s e → pos v ≤ℤ (section_at sections k).value
  pub of_stretches : (k : ℕ) → k < n → MeetsStretch metres (stretch_at stretches k) s e → v ≤ (stretch_at stretches k).limit
  pub reached :
      ((k : ℕ) × (k < length sections) × MeetsSection metres (section_at sections k) s e × (pos v ≡ (section_at sections k).value))
      ⊎ ((k : ℕ) × (k < n) × MeetsStretch metres (stretch_at stretches k) s e × (v ≡ (stretch_at stretches k).limit))

pub none_lowered : (sections : List Section) (stretches : List Stretch) (metres s e v : ℕ) → IsLeastLimit sections [] metres s e v → IsLeastOf sections stretches 0 metres s e v
none_lowered sections stretches metres s e v h = record {
  of_sections = h.of_sections;
  of_stretches = λ k l m. absurd (omega (arith, l));
  reached = elim h.reached [ inl is ↦ inl is | inr (k, l, m, at) ↦ absurd (omega (arith, l)) ];
}

pub one_lowered : (sections : List Section) (stretches : List Stretch) (n metres s e b v : ℕ) →
    IsLeastOf sections stretches n metres s e b → IsLowered (stretch_at stretches n) metres s e b v → IsLeastOf sections stretches (n + 1) metres s e v
one_lowered sections stretches n metres s e b v h lowered = record {
  of_sections = λ k l m. omega (arith, ints, lowered.below, h.of_sections k l m);
  of_stretches = λ k l m. elim (cases_lt k n) [
    | inl early ↦ omega (arith, lowered.below, h.of_stretches k early m)
    | inr g ↦ (let same : k ≡ n = omega (arith, l, g) in
        let under : v ≤ (stretch_at stretches n).limit = lowered.under (subst (λ (j : ℕ). MeetsStretch metres (stretch_at stretches j) s e) same m) in
        subst (λ (j : ℕ). v ≤ (stretch_at stretches j).limit) (sym same) under)
  ];
  reached = elim lowered.reached [
    | inl is ↦ elim h.reached [
      | inl (k, l, m, at) ↦ inl (k, l, m, ap (λ (n : ℕ). pos n) is ∙ at)
      | inr (k, l, m, at) ↦ inr (k, omega (arith, l), m, is ∙ at)
    ]
    | inr (m, at) ↦ inr (n, omega arith, m, at)
  ];
}

pub all_lowered : (sections : List Section) (stretches : List Stretch) (metres s e v : ℕ) → IsLeastOf sections stretches (length stretches) metres s e v → IsLeastLimit sections stretches metres s e v
all_lowered sections stretches metres s e v h = record { of_sections = h.of_sections; of_stretches = h.of_stretches; reached = h.reached }

-- a section's value is in the sections' range
pub value_low : (low high : ℤ) (sections : List Section) → AreSections low high sections → (s e : ℕ) (v : ℤ) → LiesIn sections s e v → low ≤ℤ v
value_low low high sections h s e v lies = subst (λ (z : ℤ). low ≤ℤ z) (sym lies.4) (h.each lies.0 lies.1).value.0

pub value_high : (low high : ℤ) (sections : List Section) → AreSections low high sections → (s e : ℕ) (v : ℤ) → LiesIn sections s e v → v ≤ℤ high
value_high low high sections h s e v lies = subst (λ (z : ℤ). z ≤ℤ high) (sym lies.4) (h.each lies.0 lies.1).value.1

-- the numbers of a step
step_with : (train : Train) (gradients : List Section) (s e : ℕ) (value : ℤ) → s < e → LiesIn gradients s e value → IsStepOf train gradients s e (step_of_train (numbers_of train) (e - s) value)
step_with train gradients s e value long lies = record { train_is = refl; metres = omega (arith, long); gradient = lies }

pub steps_are : (train : Train) (gradients : List Section) (places : List ℕ) (values : List ℤ) (rows : List StepNumbers) → Rising places →
    AreValues gradients places values → AreRows train values places rows → (i : ℕ) → i < length rows →
    IsStepOf train gradients (get_or places i 0) (get_or places (i + 1) 0) (get_or rows i no_step)
steps_are train gradients places values rows rising a r i l =
    let there : i < length values = omega (arith, l, r.count) in
    subst (λ (n : StepNumbers). IsStepOf train gradients (get_or places i 0) (get_or places (i + 1) 0) n) (sym (r.each i l))
    (step_with train gradients (get_or places i 0) (get_or places (i + 1) 0) (get_or values i (pos 0)) (rising i (omega (arith, there, a.count))) (a.each i there))
