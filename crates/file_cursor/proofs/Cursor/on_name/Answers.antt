use Rattle.std.proofs.Common.{◌<◌, length, refl, sym, ap, ◌∙◌, arith, get_or}
use borrow.Author.Tests.{lt-ltb, le-ltb}
use Rattle.file_syntax.specs.Scanner.{room, is_new}
use Rattle.file_cursor.proofs.NamesLine.{earlier, begun_word, word_more, next-name, next-line, one_more_name, few_yet, too_many, name_letter, name_space, name_end, name_odd}
use Rattle.file_cursor.proofs.Cursor.on_name.Goals as goal
use Rattle.file_cursor.proofs.Cursor.on_name.Goals.{then-self-lt255, else-self-lt255, then-self-lt256, else-self-lt256, then-letter, else-letter}

pub returns-after-self-lt255-clause-by_index : goal.returns-after-self-lt255-clause-by_index
returns-after-self-lt255-clause-by_index c = λ ns w k e q.
    let x = c.args.file.now in
    let at = c.args.at in
    let start = c.args.self.start in
    let i : at < length x = c.requires.1 in
    elim c.if-self-lt255.branch [
      | then-self-lt255 v ↦
          name_space _ ns w (get_or x at 0) _ _ c.then_some.ensures c.in-32.is
          (v.then_some-is ∙ v.is_new.ensures ns k.each (earlier x at ns w start i e q.2) ∙ ap (is_new ns) (begun_word x at ns w start i e q.2)
          ∙ few_yet (is_new ns w) _ (lt-ltb (length ns) 255 (omega (arith, q.1, v.if-self-lt255.true))))
          (q.0, one_more_name x at ns w start i e q.2 c.args.self.names q.1, next-name x at ns w start i e q.2)
      | else-self-lt255 v ↦
          name_space _ ns w (get_or x at 0) _ _ c.then_some.ensures c.in-32.is
          (v.then_some-is ∙ le-ltb c.args.self.names 255 v.if-self-lt255.false ∙ too_many (is_new ns w) _ (le-ltb (length ns) 255 (omega (arith, q.1, v.if-self-lt255.false))))
          (q.0, one_more_name x at ns w start i e q.2 c.args.self.names q.1, next-name x at ns w start i e q.2)
    ]

pub returns-after-self-lt256-clause-by_index : goal.returns-after-self-lt256-clause-by_index
returns-after-self-lt256-clause-by_index c = λ ns w k e q.
    let x = c.args.file.now in
    let at = c.args.at in
    let start = c.args.self.start in
    let i : at < length x = c.requires.1 in
    elim c.if-self-lt256.branch [
      | then-self-lt256 v ↦
          name_end _ ns w (get_or x at 0) _ _ c.then_some-in-10.ensures c.in-10.is
          (v.then_some-is ∙ v.is_new-then-self-lt256.ensures ns k.each (earlier x at ns w start i e q.2) ∙ ap (is_new ns) (begun_word x at ns w start i e q.2))
          (refl, one_more_name x at ns w start i e q.2 c.args.self.names q.1, next-line x at ns w start i e q.2, refl, refl)
      | else-self-lt256 v ↦ absurd (omega (arith, q.1, k.few, v.if-self-lt256.false))
    ]

pub returns-after-letter-clause-by_index : goal.returns-after-letter-clause-by_index
returns-after-letter-clause-by_index c = λ ns w k e q.
    let x = c.args.file.now in
    let at = c.args.at in
    let start = c.args.self.start in
    let i : at < length x = c.requires.1 in
    elim c.if-letter.branch [
      | then-letter v ↦
          name_letter _ ns w (get_or x at 0) _ _ c.then_some-in_default.ensures (sym c.letter.ensures ∙ v.if-letter.true)
          (v.then_some-is ∙ v.has_room.ensures ns k.each k.different (earlier x at ns w start i e q.2) ∙ ap (room ns) (word_more x at ns w start i e q.2)) q
      | else-letter v ↦
          name_odd _ ns w (get_or x at 0) _ _ c.then_some-in_default.ensures (sym c.letter.ensures ∙ v.if-letter.false) (omega arith) (omega arith) (v.then_some-is ∙ v.if-letter.false)
    ]
