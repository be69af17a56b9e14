use Rattle.fol_subst.proofs.Meaning.{replacement_keeps_meaning}
use Rattle.fol_subst.proofs.laws.exactness.Goals as goal

pub returns : goal.returns
returns c =
    replacement_keeps_meaning (record {
      reads = record {
        all = c.quantified.ensures.all;
        any = c.quantified.ensures.any;
        rows = c.lists.ensures.rows;
        truth = c.indices.ensures.truth;
        value = c.indices.ensures.values;
      };
      updates = record {
        relations = c.update_laws.ensures.relations;
        functions = c.update_laws.ensures.functions;
        along = c.range_laws.ensures.along;
        elements = c.range_laws.ensures.values;
        agree = c.agreement.ensures.truth;
        in_range = c.agreement.ensures.in_range;
      };
      bound = c.indices.ensures.bound;
      bound_term = c.indices.ensures.bound_terms;
      fragments =
          record {
            prefix = c.inclusion.ensures.prefix;
            free = c.inclusion.ensures.quantifier_free;
            no_witness = c.witnesses.ensures.universal;
          };
    })
