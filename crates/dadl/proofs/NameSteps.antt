-- What a step of the search for a repeated name and of the readers of names shows; and the names of a block's earlier rows. Assumes nothing.
use mathlib.Core.Path.{◌≡◌, refl, sym, ap, ◌∙◌}
use mathlib.Core.Bool.{Bool, true, false, ◌||◌}
use mathlib.Core.List.{List, [], ◌∷◌}
use Prim.Native.Nat.{ℕ, ◌+◌, ◌*◌, ◌-◌, ◌≤◌, ◌<◌}
use native.Mathlib.Omega.{arith}
use lib.ListN.{length}
use borrow.Author.Tests.{lt-ltb, le-ltb}
use Rattle.lexis.specs.Runs.{byte_at, part, same, listed}
use Rattle.lexis.specs.Tokens.{spelling}
use Rattle.lexis.specs.DataTokens.{equals}
use Rattle.lexis.specs.declared.Token.{Token}
use Rattle.refusals.specs.Limits.{name_limit}
use Rattle.refusals.specs.Reading.{refused, got}
use Rattle.refusals.specs.Reading
use Rattle.refusals.specs.Parsing.{first_in}
use Rattle.refusals.specs.Refusals.{refusal}
use Rattle.refusals.specs.declared.Cause.TheVariants.{TooLong, RepeatedName}
use Rattle.refusals.specs.declared.Refusal.{Refusal}
use Rattle.dadl.specs.Data.{expect_data, name_from, span_of}
use Rattle.dadl.specs.Clauses.Tape.{row_size}
use Rattle.refusals.specs.Clauses.Answers.{ExpectIs}
use Rattle.dadl.specs.Clauses.Answers.{name_reading, NamePast, NameIs, ContentIs, content_of, Inside, number_at, name_at, NameLies, earlier_names, NamedRow, Chain, Earlier, member_reading}
use Rattle.std.specs.Result.{IsErrAnd}
use Rattle.std.specs.declared.result.Result.{Result}
use Rattle.std.specs.declared.result.Result.TheVariants.{Ok, Err}
use Rattle.dadl.specs.declared.contents.Content.{Content}
use Rattle.dadl.proofs.TokenSteps.{passed_on}
use Rattle.refusals.proofs.StepLaws.{expected_fault, expected_token, expected_past}
use Rattle.refusals.proofs.Parses.{first_then, then_refused, then_got}
use Rattle.lexis.proofs.Comparing.{InBytes, bytes-start, bytes_end, bytes_in, bytes_there, bytes_differ, bytes_on}
use Rattle.lexis.proofs.Parts.{part_length}
use Rattle.lexis.proofs.RunSteps.{same_long}
use Rattle.dadl.proofs.ContentSteps.{content_lower}

-- the rows from n on lead up to the last
chain_low : (s tape : List ℕ) (n end : ℕ) (ws : List (List ℕ)) → Chain s tape n end ws → n ≤ end
unfolding Chain
chain_low s tape n end [] h = omega arith
chain_low s tape n end (w ∷ ws) h = omega arith

-- at row n of the search for a name
pub record InNames (s tape : List ℕ) (low end : ℕ) (name : List ℕ) (n : ℕ) (again : Bool) : Type 0 where
  pub names : List (List ℕ)
  pub chain : Chain s tape n end names
  pub least : n ≤ end
  pub room : row_size * end ≤ length tape
  pub not_yet : again ≡ false
  pub is : listed name names ≡ listed name (earlier_names s tape low end)

pub names_start : (s tape : List ℕ) (low end : ℕ) (name : List ℕ) → Earlier s tape low end
    → InNames s tape low end name low false
names_start s tape low end name e = record {
  names = earlier_names s tape low end;
  chain = e.chain;
  least = chain_low s tape low end (earlier_names s tape low end) e.chain;
  room = e.room;
  not_yet = refl;
  is = refl;
}

module _ (s tape : List ℕ) (low end : ℕ) (name : List ℕ) (n : ℕ) (again : Bool)
    (inv : InNames s tape low end name n again) where
  none_left : (ws : List (List ℕ)) → Chain s tape n end ws → end ≤ n → listed name ws ≡ false
  unfolding Chain listed
  none_left [] h l = refl
  none_left (w ∷ ws) h l = absurd (omega arith)

  pub names_end : end ≤ n → again ≡ listed name (earlier_names s tape low end)
  names_end l = inv.not_yet ∙ sym (none_left inv.names inv.chain l) ∙ inv.is

  module _ (l : n < end) where
    -- the row's name, and those behind it
    record AtName : Type 0 where
      more : List (List ℕ)
      row : NamedRow s tape n end (name_at s tape n)
      behind : Chain s tape (number_at tape n 8) end more
      is : (same name (name_at s tape n) || listed name more) ≡ listed name (earlier_names s tape low end)

    at_name : AtName
    unfolding Chain listed
    at_name = by inv.names inv.chain inv.is
      where
        by : (ws : List (List ℕ)) → Chain s tape n end ws → listed name ws ≡ listed name (earlier_names s tape low end)
            → AtName
        by [] h e = absurd (omega arith)
        by (w ∷ ws) h e =
            let r = h.0 in
            record { more = ws; row = record { is = refl; order = r.order; inside = r.inside; up = r.up; most = r.most }; behind = h.1; is = rw r.is e }

    pub name_lies : NameLies s tape n
    name_lies = let r = at_name.row in let m = inv.room in record { room = omega arith; order = r.order; inside = r.inside }

    pub link_lies : row_size * n + 8 < length tape
    link_lies = let m = inv.room in omega arith

    pub names_less : (next : ℕ) → next ≡ number_at tape n 8 → end - next < end - n
    names_less next e = let r = at_name.row in omega arith

    module _ (other : List ℕ) (eo : other ≡ name_at s tape n) where
      pub bytes_begin : length name ≡ length other → InBytes name other 0 again
      bytes_begin e = bytes-start name other again inv.not_yet e

      pub bytes_found : (i : ℕ) (r : Bool) → InBytes name other i r → i ≡ length name
          → true ≡ listed name (earlier_names s tape low end)
      bytes_found i r b e = rw (← eo, ← (bytes_end name other i r b e)) at at_name.is

      module _ (next : ℕ) (en : next ≡ number_at tape n 8) where
        names_next : (r : Bool) → r ≡ false → false ≡ same name other → InNames s tape low end name next r
        names_next r k h = rw en (record { names = at_name.more; chain = at_name.behind; least = at_name.row.most; room = inv.room; not_yet = k; is = rw (← eo, ← h) at at_name.is })

        pub longer_next : (length name ≡ length other → ⊥) → InNames s tape low end name next again
        longer_next k = names_next again inv.not_yet (same_long name other k)

        pub bytes_next : (i : ℕ) (r : Bool) → InBytes name other i r → (i ≡ length name → ⊥)
            → (byte_at name i ≡ byte_at other i → ⊥)
            → InNames s tape low end name next r
        bytes_next i r b k d = names_next r b.not_yet (bytes_differ name other i r b k d)

-- what the search rests on
pub ruleset search_steps = (names_start, link_lies, bytes_begin, longer_next, bytes_next, bytes_in, bytes_there, bytes_on)

-- a name and its `=`
module _ (s : List ℕ) (seen : List (List ℕ)) (t : Token) (inside : Inside s t.start t.end) where
  many : length (spelling s t) ≡ t.end - t.start
  many = part_length s t.start t.end (omega arith)

  pub name_long : name_limit < t.end - t.start → (x : Refusal) → x ≡ refusal TooLong t.start
      → NameIs s t (first_in (name_from s seen t)) (Err x)
  unfolding name_from
  name_long l x e = record { is = rw (many, lt-ltb name_limit (t.end - t.start) l, e); past = tt }

  module _ (l : t.end - t.start ≤ name_limit) (again : Bool)
      (is : again ≡ listed (part s t.start t.end) seen) where
    pub name_again : again ≡ true → (x : Refusal) → x ≡ refusal RepeatedName t.start
        → NameIs s t (first_in (name_from s seen t)) (Err x)
    unfolding name_from
    name_again e x f = record { is = rw (many, le-ltb name_limit (t.end - t.start) l, ← is, e, f); past = tt }

    module _ (new : again ≡ false) (r : Result Token Refusal)
        (d : ExpectIs s equals t.end (first_in (expect_data s equals t.end)) r) where
      named : Reading.read_then (first_in (expect_data s equals t.end))
          (λ u p. got (span_of t) p) ≡ first_in (name_from s seen t)
      unfolding name_from
      named = rw (many, le-ltb name_limit (t.end - t.start) l, ← is, new) (sym (first_then (expect_data s equals t.end) _))

      pub name_unclosed : (x : Refusal) → r ≡ Err x → (q : Result ℕ Refusal) → IsErrAnd q (λ z. z ≡ x)
          → NameIs s t (first_in (name_from s seen t)) q
      name_unclosed x g q i = rw (passed_on q x i) (record { is = rw (expected_fault d x g) at named; past = tt })

      pub name_closed : (u : Token) → r ≡ Ok u → NameIs s t (first_in (name_from s seen t)) (Ok u.end)
      name_closed u g =
          let p = expected_past d u g in
          let b : u.start < u.end = p.3 (omega arith) in
          record { is = rw (expected_token d u g) at named; past = (omega arith, omega arith) }

-- a member up to its leaf's end or its block's opening
module _ (s : List ℕ) (seen : List (List ℕ)) (t : Token) (inside : Inside s t.start t.end) (r : Result ℕ Refusal)
    (d : NameIs s t (first_in (name_from s seen t)) r) where
  pub member_bad : (x : Refusal) → r ≡ Err x → (q : Result Content Refusal) → IsErrAnd q (λ z. z ≡ x)
      → ContentIs s (t.start + 2) (member_reading s seen t) q
  unfolding member_reading
  member_bad x g q i =
      let h : first_in (name_from s seen t) ≡ refused x = sym d.is ∙ ap (name_reading t) g in
      rw (passed_on q x i) (record { is = λ down. sym (then_refused (name_from s seen t) _ x h); past = tt })

  module _ (next : ℕ) (g : r ≡ Ok next) where
    named_past : NamePast s t (Ok next)
    named_past = rw g at d.past

    pub member_next : next ≤ length s
    member_next = let p = named_past in omega arith

    pub member_content : (o : Result Content Refusal) → ContentIs s next (content_of s next) o
        → ContentIs s (t.start + 2) (member_reading s seen t) o
    unfolding member_reading content_of
    member_content o k =
        let p = named_past in
        let h : first_in (name_from s seen t) ≡ got (span_of t) next = sym d.is ∙ ap (name_reading t) g in
        record { is = λ down. k.is down ∙ sym (then_got (name_from s seen t) _ (span_of t) next h); past = content_lower s (t.start + 2) next (omega arith) o k.past }
