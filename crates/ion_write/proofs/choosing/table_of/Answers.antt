use Rattle.std.proofs.Common.{◌≡◌, ◌++◌, sym, ap, subst, ◌∙◌}
use Rattle.std.specs.Prelude.{filter}
use Rattle.snel_values.specs.View.{views}
use Rattle.value_meaning.specs.Val.{vals}
use Rattle.block_meaning.specs.Tables.{Table}
use Rattle.write_meaning.specs.BlockTables.{item_names, item_texts, is_short, IsTableOf}
use Rattle.ion_write.specs.Mentions.{shown}
use Rattle.ion_write.proofs.Mentioned.{shown_joined}
use Rattle.ion_write.proofs.TableMade.{IsMade, table_made}
use Rattle.ion_write.proofs.choosing.table_of.Goals as goal

pub returns : goal.returns
returns c =
    let rows = vals (views c.args.rows.now) in
    let made : IsMade rows (shown c.put_in_order-3.new.texts.items) = record {
      names = shown c.mention_rows.new.names.items;
      first = shown c.put_in_order.new.texts.items;
      texts = shown c.mention_rows.new.texts.items;
      twice = shown c.in_ok-twice.twice.items;
      second = shown c.put_in_order-2.new.texts.items;
      joined = shown c.append.new.self.items;
      names_are = c.in_ok-mention_rows.ensures.names ∙ ap (λ xs. shown xs ++ item_names rows) c.new-names.ensures.items;
      texts_are = c.in_ok-mention_rows.ensures.texts ∙ ap (λ xs. shown xs ++ filter is_short (item_texts rows)) c.new-texts.ensures.items;
      names_ordered = c.put_in_order.ensures;
      repeated = c.in_ok-twice.ensures;
      twice_ordered = c.put_in_order-2.ensures;
      joined_are = ap shown c.in_ok-append.ensures.items ∙ shown_joined c.put_in_order.new.texts.items c.put_in_order-2.new.texts.items;
      ordered = c.put_in_order-3.ensures;
    } in
    subst (λ (table : Table). IsTableOf rows table) (sym c.of_texts.ensures) (table_made rows (shown c.put_in_order-3.new.texts.items) made)
